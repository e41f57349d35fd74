pub mod EventTexts
pub mod HeaderTexts
pub mod KindPlans
