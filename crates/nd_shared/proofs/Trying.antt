-- A call that observes more before its entry, and one that is tried again.
use Rattle.std.proofs.Common.{ℕ, Bool, true, false, List, [], ◌∷◌, ◌++◌, refl, ap, ◌∙◌}
use Rattle.era_one_row.proofs.GoingOn.{begins_twice}
use Rattle.pls_archive.specs.declared.point.Point.{Point}
use Rattle.pls_archive.specs.declared.call.Call.{Call}
use Rattle.pls_archive.specs.declared.call.Reply.{Reply}
use Rattle.pls_archive.specs.Rule.{is_accepting}
use Rattle.pls_archive.specs.SharedCalls.{Answers, IsRefused}
use Rattle.pls_archive.specs.View.{View, ObservesMore, ObservesWith}
use Rattle.nd_shared.proofs.Consistent.{entry_of}

module _ (a b c : View) (more : ObservesMore a b) where
  pub more_twice : ObservesMore b c → ObservesMore a c
  more_twice next = record {
    number = next.number ∙ more.number;
    observed = begins_twice a.observed b.observed c.observed more.observed next.observed;
    own = next.own ∙ more.own;
    others = next.others ∙ more.others;
  }

  module _ (reply : List Point → Call → Reply) (started : ℕ) where
    pub refused_later : IsRefused reply started b c → IsRefused reply started a c
    refused_later refused = record { observes_more = more_twice refused.observes_more; consistent = refused.consistent }

    module _ (call : Call) (answer : Reply) (stamp : ℕ) where
      observes : (accepted : Bool) → ObservesWith reply accepted b.observed (entry_of b.number stamp call answer) c.observed
          → ObservesWith reply accepted a.observed (entry_of a.number stamp call answer) c.observed
      observes true last = (
        last.0,
        begins_twice a.observed b.observed last.0 more.observed last.1,
        last.2 ∙ ap (λ n. last.0 ++ entry_of n stamp call answer ∷ []) more.number,
        last.3,
      )
      observes false last = (begins_twice a.observed b.observed c.observed more.observed last.0, last.1)

      pub answers_later : Answers reply started b call answer stamp c → Answers reply started a call answer stamp c
      answers_later answers =
          let extends = answers.extends in record {
            extends = record {
              number = extends.number ∙ more.number;
              names = refl;
              own =
                  extends.own ∙ ap (λ es. es ++ entry_of b.number stamp call answer ∷ []) more.own
                  ∙ ap (λ n. a.own ++ entry_of n stamp call answer ∷ []) more.number;
              others = extends.others ∙ more.others;
              stamped = extends.stamped;
              observes = observes (is_accepting call answer) extends.observes;
            };
            consistent = answers.consistent;
          }
