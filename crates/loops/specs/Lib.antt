-- What counting loops compute, what a part of a list leaves. Definitions and laws only.
pub mod Fold
pub mod Front
pub mod Part
pub mod PartRead
pub mod Chunks
pub mod Sum
pub mod Pick
pub mod Logic
pub mod Below
pub mod Every
pub mod Nan
pub mod Made
pub mod Mapped
