use Rattle.std.proofs.Common.{◌≡◌, ℕ, ◌+◌, ◌/◌, length, sym, ap, ◌∙◌}
use Rattle.text_units.proofs.Shares.{all_right, fault_in_share, fault_in_others}
use Rattle.text_units.proofs.lowered.+at_once+fn-at_once-join+arg3.Goals as goal

pub returns-clause-right : goal.returns-clause-right
returns-clause-right g t c =
    let names = c.split_at in
    let texts = c.split_at-2 in
    let both = c.join-units.ensures in
    let next : ℕ = c.args.first + length c.args.names.now / c.args.threads in
    let count : length texts.result.0.now ≡ length names.result.0.now = texts.ensures.front_len ∙ sym names.ensures.front_len in
    let next_is : next ≡ c.args.first + length names.result.0.now = ap (λ (k : ℕ). c.args.first + k) (sym names.ensures.front_len) in
    all_right c.args.first next c.args.names.now names.result.0.now names.result.1.now c.args.texts.now texts.result.0.now texts.result.1.now names.ensures.by_index.0 texts.ensures.by_index.0 count next_is
    c.join-units.result.0 c.join-units.result.1 both.first.0 both.second.0 both.first.1 both.second.1 c.in-Ok.units c.in-Ok-more.more c.append.new.self.items c.in-Ok.is c.in-Ok-more.is c.in_ok-append.ensures.items

pub returns-in-Err-clause-refused : goal.returns-in-Err-clause-refused
returns-in-Err-clause-refused g t c =
    let names = c.split_at in
    let texts = c.split_at-2 in
    let both = c.join-units.ensures in
    let next : ℕ = c.args.first + length c.args.names.now / c.args.threads in
    let count : length texts.result.0.now ≡ length names.result.0.now = texts.ensures.front_len ∙ sym names.ensures.front_len in
    let next_is : next ≡ c.args.first + length names.result.0.now = ap (λ (k : ℕ). c.args.first + k) (sym names.ensures.front_len) in
    fault_in_share c.args.first next c.args.names.now names.result.0.now names.result.1.now c.args.texts.now texts.result.0.now texts.result.1.now names.ensures.by_index.0 texts.ensures.by_index.0 count next_is
    c.join-units.result.0 c.join-units.result.1 both.first.0 both.second.0 both.first.1 both.second.1 c.in-Err.fault c.in-Err.is

pub returns-in-Err-more-clause-refused : goal.returns-in-Err-more-clause-refused
returns-in-Err-more-clause-refused g t c =
    let names = c.split_at in
    let texts = c.split_at-2 in
    let both = c.join-units.ensures in
    let next : ℕ = c.args.first + length c.args.names.now / c.args.threads in
    let count : length texts.result.0.now ≡ length names.result.0.now = texts.ensures.front_len ∙ sym names.ensures.front_len in
    let next_is : next ≡ c.args.first + length names.result.0.now = ap (λ (k : ℕ). c.args.first + k) (sym names.ensures.front_len) in
    fault_in_others c.args.first next c.args.names.now names.result.0.now names.result.1.now c.args.texts.now texts.result.0.now texts.result.1.now names.ensures.by_index.0 texts.ensures.by_index.0 count next_is
    c.join-units.result.0 c.join-units.result.1 both.first.0 both.second.0 both.first.1 both.second.1 c.in-Ok.units c.in-Err-more.fault c.in-Ok.is c.in-Err-more.is
