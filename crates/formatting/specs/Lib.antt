-- That the runs of erased words are what format's steps leave.
pub mod Fresh
