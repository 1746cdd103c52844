pub mod WovenSources
