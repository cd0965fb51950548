-- laws that both versions cite
pub mod Iirs
