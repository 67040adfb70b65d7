pub use Rattle.c_consts.specs.Core.{Core, ctype_of, kind_of, core_sort, Cores, Of, NoCores, MoreCores, place_of}
pub use Rattle.c_consts.specs.Core.{over, leaf, over_two, over_three, cores_under, InOrder}
