pub mod ContentAnswers
pub mod Contents
pub mod ListAnswers
pub mod Pages
pub mod ReadAnswers
pub mod ReadCalls
pub mod StepLemmas
