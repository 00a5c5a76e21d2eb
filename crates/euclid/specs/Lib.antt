-- Division of rows, the monic remainder sequence, and why its formula is Sylvester's determinant.
pub mod Row
pub mod RowLaws
pub mod FallLaws
pub mod Division
pub mod DivisionLaws
pub mod DivisionUnique
pub mod Sequence
pub mod MonicLaws
pub mod FollowingLaws
pub mod StepsLaws
