-- The concealment program over a whole input, by the steps that it calls; the direct call beside the record's.
pub mod Program
pub mod Doors
