-- Words and what is declared.
use Rattle.std.specs.Prelude.{Bool, ◌&&◌, ◌||◌, not}
use Rattle.c_named.specs.declared.words.Wording.{Wording}

-- the words for functions go with functions alone; a typedef name, a function, and in a block what is `extern`,
-- have no initialiser; a function in a block is `extern` or has no word; a typedef defines no function; in a `for`
-- stand objects without `static` and `extern`
abbrev pub go_well : Wording → Bool
go_well a =
    not (a.for_function && (a.is_typedef || not a.is_function))
    && (not (a.initialised && (a.is_typedef || (a.is_function || (not a.at_file && a.is_extern))))
    && (not (a.is_function && (not a.at_file && not (a.without || a.is_extern)))
    && (not (a.is_typedef && a.defined)
    && not (a.in_for && (a.is_typedef || (a.is_function || (a.is_static || a.is_extern)))))))
