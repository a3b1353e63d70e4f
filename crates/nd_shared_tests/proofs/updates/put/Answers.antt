use Rattle.std.proofs.Common.{◌≡◌, ◌+◌, Some, refl, subst, ◌∙◌}
use Rattle.era_rows.specs.Passes.{known_of, knows_of}
use Rattle.era_one_row.proofs.Finishing.{Ends, still_pinned}
use Rattle.pls_archive.specs.declared.call.Entry.{Entry}
use Rattle.pls_archive.specs.History.{accepts}
use Rattle.nd_rows.specs.Entries.{IsRight, added}
use Rattle.nd_rows.specs.Layout.{IsLawful, StandsFor}
use Rattle.nd_update.proofs.Published.{none_fresh}
use Rattle.nd_shared_tests.proofs.updates.put.Goals as goal
use Rattle.nd_shared_tests.proofs.updates.put.Goals.{After-publish}

-- the publication ended as its contract says
ended : (c : After-publish)
    → Ends (λ (e : Entry). e.caller) (λ e. e.stamp) (λ _ e. accepts e) (λ d c. IsLawful d c) (λ d c entries. StandsFor d c entries) (λ d e entries. IsRight d e entries) c.args.n c.requires.built.root c.args.built.root
    (added c.number.result (c.args.n + 1) c.args.point.now c.args.built.removed) (knows_of c.args.pass.now) (knows_of c.publish.new.pass) c.publish.result
ended c = c.publish.ensures.published c.args.n c.requires.built.root (added c.number.result (c.args.n + 1) c.args.point.now c.args.built.removed) c.requires.built.may.pinned refl

pinned : (c : After-publish) → (known_of c.publish.new.pass).core.pinned ≡ Some (c.args.n, c.requires.built.root)
pinned c = still_pinned _ _ _ _ _ _ _ _ _ _ _ _ _ (ended c) ∙ c.requires.built.may.pinned

pub close-requires-clause-pinned : goal.close-requires-clause-pinned
close-requires-clause-pinned c = (c.args.n, (c.requires.built.root, pinned (goal.at.close-requires-clause-pinned c).After-publish))

pub close-requires-clause-no_fresh : goal.close-requires-clause-no_fresh
close-requires-clause-no_fresh c =
    let done = ended (goal.at.close-requires-clause-no_fresh c).After-publish in
    none_fresh _ _ _ _ _ _ _ _ _ _ _ _ c.in-Ok.field-0
    (subst (Ends (λ (e : Entry). e.caller) (λ e. e.stamp) (λ _ e. accepts e) (λ d c. IsLawful d c) (λ d c entries. StandsFor d c entries) (λ d e entries. IsRight d e entries) c.args.n c.requires.built.root c.args.built.root
    (added c.number.result (c.args.n + 1) c.args.point.now c.args.built.removed) (knows_of c.args.pass.now) (knows_of c.publish.new.pass)) c.in-Ok.is done) c.requires.built.used

pub close-requires-in-Err-clause-pinned : goal.close-requires-in-Err-clause-pinned
close-requires-in-Err-clause-pinned c = (c.args.n, (c.requires.built.root, c.give_all_back.ensures.builds.pinned ∙ pinned (goal.at.close-requires-in-Err-clause-pinned c).After-publish))
