-- What the concealment program writes for what it reads.
pub mod Answer
