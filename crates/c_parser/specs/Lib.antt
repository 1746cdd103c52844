pub mod FirstForm
pub mod ItemReading
