pub use Rattle.c_inits.specs.Initial.{Action, Placed, Outcome, Places, NoPlace, lasting, length_given}
