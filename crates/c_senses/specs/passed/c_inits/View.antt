pub use Rattle.c_inits.specs.View.{init_at, items_at}
