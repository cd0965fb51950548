mod Shift
