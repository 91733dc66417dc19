pub mod PlanCallLemmas
