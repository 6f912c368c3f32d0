pub mod Plus
pub mod Sums
pub mod PlusLaws
pub mod Notes
pub mod NotesLaws
