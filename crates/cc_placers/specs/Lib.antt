-- In reading order.
pub mod PlanCalls
