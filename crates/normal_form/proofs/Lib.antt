pub mod EachLemmas
pub mod InitialLemmas
pub mod WholeLemmas
pub mod SpotLemmas
pub mod MemberNodes
pub mod Demanding
