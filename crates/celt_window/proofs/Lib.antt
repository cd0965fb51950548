pub mod WindowRules
