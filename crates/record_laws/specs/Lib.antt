-- Reading back what was written gives the same again: words and floats, a state's words, and a record's state and history.
pub mod WordsBack
pub mod StateBack
pub mod RoundTrip
