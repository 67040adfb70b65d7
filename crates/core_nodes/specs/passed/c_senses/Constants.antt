pub use Rattle.c_senses.specs.Constants.{constant_in, is_whole, leaf_of_place, place_of_part, valued, same_place}
