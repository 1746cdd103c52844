pub mod StartLaws
pub mod ItemLaws
pub mod EndLaws
pub mod Texts
