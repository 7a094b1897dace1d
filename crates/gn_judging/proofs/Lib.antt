mod TableLemmas
mod ExecutionLemmas
mod GeneratedLemmas
mod JudgingLemmas
mod LinkLemmas
mod LimitLemmas
