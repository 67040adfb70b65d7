pub use Rattle.parsed_tree_laws.specs.sense_laws.Sound.{AgreesWith, MeaningFits, Gives, Sound, AllSound, RowOver, list_of, IsProper}
pub use Rattle.parsed_tree_laws.specs.sense_laws.Sound.{HasNoType, IsPartOf, PointsToSized, IsFirstPart, IsValueCore, IsPlaceCore}
pub use Rattle.parsed_tree_laws.specs.sense_laws.Sound.{IsStatementCore, IsConditionCore, IsNumeralCore, IsFurtherCore, AreArguments}
pub use Rattle.parsed_tree_laws.specs.sense_laws.Sound.{CallsWith, InitialOver, IsOneExpressionCore, IsForFirst, IsForCondition}
pub use Rattle.parsed_tree_laws.specs.sense_laws.Sound.{IsForAfter, AreForParts, IfOver, ReturnOver, ArithOver, ChooseOver, CallOver}
pub use Rattle.parsed_tree_laws.specs.sense_laws.Sound.{One, Two, IsEmpty, IsSmall, IsVariadicOf}
pub use Rattle.parsed_tree_laws.specs.sense_laws.Sound.{FurtherIsVariadic}
