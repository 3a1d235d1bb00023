pub mod PieceLaws
pub mod OutputTexts
