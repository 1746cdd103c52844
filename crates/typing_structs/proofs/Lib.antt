pub mod MemberLaws
pub mod StructLaws
