use Rattle.std.proofs.Common.{rules, sym, ◌∙◌, ap, Option}
use Rattle.std.specs.Prelude.{Bool, ◌&&◌, filter, is_some, not}
use Rattle.std.specs.FinMap as fin
use Rattle.std.specs.Map.{keys_of}
use Rattle.std.proofs.lemmas.Map.Made.{filter_same_pairs}
use Rattle.tm_data.specs.Maps.{entries-as_map}
use Rattle.master_model.specs.Recovery.{WrittenRow}
use Rattle.master_recovery.specs.Places.{valued}
use Rattle.master_recovery.specs.Rows.{written_cmp-total, written_cmp-exact}
use Rattle.master_recovery.proofs.PlaceLemmas.{entries-retain, entries-valued}
use Rattle.master_recovery.proofs.WalkLemmas.{open_keys, where_open}
use Rattle.master_recovery.proofs.row_places.RowPlaces.keep_open.Goals as goal

pub returns : goal.returns
returns c =
    let q : WrittenRow → Bool = λ w. not (fin.contains_key (valued c.args.ended.now) w.txn) in
    let es = c.self.inside.places.entries in
    ap keys_of (entries-as_map written_cmp-total c.retain.new.self c.retain.ensures.ordered)
    ∙ ap keys_of (filter_same_pairs _ (λ (e : WrittenRow × Option (Unit {0})). is_some e.1 && q e.0) _ (λ k v b w f' t. search rules) es c.retain.new.self.entries c.retain.ensures.filtered)
    ∙ open_keys q es
    ∙ ap (λ l. keys_of (where_open q l)) (sym (entries-as_map written_cmp-total c.self.inside.places c.self.invariant) ∙ ap fin.entries c.self.view_is)
    ∙ ap (λ l. keys_of (filter (λ e. q e.0) l)) (sym (entries-valued written_cmp-total written_cmp-exact c.args.self.now))
    ∙ sym (ap keys_of (entries-retain written_cmp-total written_cmp-exact (valued c.args.self.now) q))
