pub mod SidLaws
pub mod TextLaws
