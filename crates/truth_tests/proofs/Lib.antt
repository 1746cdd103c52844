pub mod SmallLaws
