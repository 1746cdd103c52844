pub mod NestingLaws
