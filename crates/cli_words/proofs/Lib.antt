mod TaskLemmas
mod RoundListLemmas
