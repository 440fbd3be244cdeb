-- What the contracts of `calls` cite, and the laws that callers go by.
-- what a load, a judgement and a ticket come to
pub mod Outcome
-- what the calls on lent slices answer and leave
pub mod Calls
-- runs of calls
pub mod Runs
-- the wrong line in a ticket's answer
pub mod Line
-- each refusal exactly then: a row for each call and number
pub mod Exactly
