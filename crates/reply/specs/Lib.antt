-- What a call that may refuse leaves. Definitions and laws only.
pub mod Reply
