use Rattle.std.proofs.Common.{◌≡◌, ℕ, suc, ◌+◌, ◌<◌, ◌≤◌, rules, List, [], ◌∷◌, map, flat_map, length, ltb, get_or, ap, ◌∙◌, arith, length-set}
use Rattle.std.proofs.lemmas.Fn.{filter_same}
use Rattle.std.proofs.lemmas.List.{get_or_read, length-map}
use Rattle.era_core.specs.Lists.{without}
use Rattle.era_core.specs.Views.{Batch, batch_of}
use Rattle.era_core.specs.Passes.{batch_of_rows, batches_of}
use Rattle.era_core.specs.declared.pass.Retired.{Retired}
use Rattle.era_core.proofs.Batches.{changed, changed_more, changed_all, batches_left, without_row_by}
use Rattle.era_core.proofs.pass.remove_retired.Goals as goal

pub loop-index-preserved : goal.loop-index-preserved
loop-index-preserved c =
    let g : Batch → Batch = λ (b : Batch). (b.0, without (c.args.row ∷ []) b.1) in
    let xs = c.loop-index.batches.items in
    let i = c.loop-index.index in
    let p : Retired = c.index_mut.result.now in
    let q : Retired = record p { rows = c.remove_row.new.rows } in
    let all = batches_of c.args.batches.now.items in
    let inside : i < length xs = omega (arith, c.loop-index.invariant.as_many) in
    let new : batch_of_rows q ≡ g (batch_of_rows (get_or xs i q)) =
    ap (λ (rows : List ℕ). (p.version, rows)) c.remove_row.ensures.items ∙ ap (λ x. g (batch_of_rows x)) (get_or_read xs i p inside c.index_mut.ensures.value q) in
    let one_more : suc i ≡ i + 1 = omega arith in
    record {
      so_far = changed_more batch_of_rows g xs i q all inside new c.loop-index.invariant.so_far ∙ ap (λ (n : ℕ). changed g n all) one_more;
      as_many = length-set xs i q ∙ c.loop-index.invariant.as_many;
    }

pub returns : goal.returns
returns c =
    let g : Batch → Batch = λ (b : Batch). (b.0, without (c.args.row ∷ []) b.1) in
    let all = batches_of c.args.batches.now.items in
    let whole : length all ≤ c.loop-index.index = omega (arith, length-map c.args.batches.now.items batch_of_rows) in
    ap (map batch_of_rows) (filter_same _ (λ (b : Retired). ltb 0 (length b.rows.items)) _ (λ x b f' k. search rules) _ _ c.retain.ensures.filtered)
    ∙ batches_left batch_of_rows c.loop-index.batches.items
    ∙ ap (flat_map (λ (b : Batch). batch_of b.0 b.1)) (c.loop-index.invariant.so_far ∙ changed_all g all c.loop-index.index whole)
    ∙ without_row_by c.args.row all
