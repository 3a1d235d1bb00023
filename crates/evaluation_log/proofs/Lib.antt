pub mod LogLaws
pub mod CountLaws
