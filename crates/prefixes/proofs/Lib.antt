-- words: their order, one after another, how many come after one
pub mod Order
pub mod Words
pub mod Rooms
-- items as words
pub mod Items
pub mod Free
pub mod Many
pub mod Heads
pub mod Texts
-- how many items come after one, and where one can be raised
pub mod Families
pub mod Ends
pub mod Raise
pub mod Reach
pub mod Demand
-- what the walk tells holds
pub mod Told
pub mod Keys
pub mod Loops
pub mod Strings
pub mod Forms
pub mod Fronts
pub mod Whole
pub mod Verdict
-- the walk step by step, for code
pub mod Steps
