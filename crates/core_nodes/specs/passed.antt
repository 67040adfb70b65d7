pub mod c_senses
