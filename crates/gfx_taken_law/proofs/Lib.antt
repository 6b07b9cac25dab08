-- ---- checks that ask for no new id
pub mod OldChecks
pub mod OldRows
-- ---- checks that do
pub mod NewIds
pub mod NewRows
-- ---- which steps create an id
pub mod NewSteps
-- ---- the laws
pub mod TakenLaws
mod Examples
