pub mod RegisterLaws
pub mod StackLaws
