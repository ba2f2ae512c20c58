pub mod Zeros
pub mod Steps
pub mod LayoutLaws
pub mod FieldLaws
pub mod ArrayLaws
pub mod ObjectLaws
pub mod Loops
pub mod FormLaws
