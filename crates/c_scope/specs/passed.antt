pub mod pta_base
