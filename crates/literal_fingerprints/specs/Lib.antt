pub mod CandidateScans
pub mod FingerprintsValue
pub mod Inside
pub mod RarePairs
pub mod ShortPatterns
