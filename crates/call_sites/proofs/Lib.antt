pub mod SignatureLemmas
pub mod SiteLemmas
