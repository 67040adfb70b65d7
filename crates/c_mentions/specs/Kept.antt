-- How settings are kept: nodes that stand alike share one entry.
use Rattle.std.specs.Prelude.{ℕ, ◌≡◌, ◌<◌, ◌≤◌, List, length, slice_index_or}
use Rattle.c_mentions.specs.declared.settings.Setting.{Setting}
use Rattle.c_mentions.specs.declared.roles.Role.{Role}
use Rattle.c_mentions.specs.declared.roles.Role.TheVariants.{Elsewhere}

-- what stands for a setting where there is none
abbrev pub nowhere : Setting
nowhere = record { scope = 0; body = 0; role = Elsewhere }

-- the setting of a number
abbrev pub kind_at : List Setting → ℕ → Setting
kind_at kinds place = slice_index_or kinds place nowhere

-- the settings that had numbers have them still
pub record Keeps (old new : List Setting) : Type 0 where
  pub more : length old ≤ length new
  pub kept : (place : ℕ) → place < length old → kind_at new place ≡ kind_at old place

-- a setting with another role
abbrev pub with_role : Setting → Role → Setting
with_role setting role = record { scope = setting.scope; body = setting.body; role = role }
