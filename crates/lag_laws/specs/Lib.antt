-- What is known of the lag, whatever the samples are: bounds of what the sweeps compare, and histories with no pitch.
-- That a found offset lies from 0 to 618, and so the lag from 102 to 720, stands with the search itself (plc_search, Offset).
pub mod Raised
pub mod NoPitch
pub mod FlatHistory
