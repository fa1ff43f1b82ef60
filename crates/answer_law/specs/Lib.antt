pub mod AnswerExample
