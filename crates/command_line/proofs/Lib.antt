pub mod FormLemmas
pub mod Numbers
