pub mod FitsNormal
