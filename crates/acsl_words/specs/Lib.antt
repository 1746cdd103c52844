pub mod AnnotationWords
