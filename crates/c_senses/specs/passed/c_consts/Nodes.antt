pub use Rattle.c_consts.specs.Nodes.{AreRows, IsConstantKind, bare}
