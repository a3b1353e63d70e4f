use Rattle.std.proofs.Common.{rules, ◌≡◌, ◌<◌, ◌≤◌, [], length, set, map, sym, subst, arith}
use Rattle.std.specs.Prelude.{vec_len, MatchResult}
use Rattle.atomic_table.proofs.Lists.{at_index}
use Rattle.pls_pool.specs.Accounts.{Puts}
use Rattle.pls_pool.specs.Hands.{own_hand, account_at}
use Rattle.pls_pool.specs.Reaches.{hand_at}
use Rattle.pls_pool.specs.StealSeats.{own_at}
use Rattle.pls_pool.proofs.TaskMoves.{no_length}
use Rattle.pls_pool.proofs.SeatMoves.{reach_stays, stays, own_works, puts_in, full_already, full_now, aside_answer, room_left}
use Rattle.pls_pool.proofs.stealing_calls.StealingPool.put.Goals as goal

pub returns-then-not-is_empty : goal.returns-then-not-is_empty
returns-then-not-is_empty g c =
    let q = c.args.self.now in
    let seat = c.args.seat.now in
    let rs = seat.reaches.items in
    let number = seat.number in
    let some_spare : 0 < length seat.spare = search rules in
    let full = full_already q number rs seat.spare c.requires some_spare in
    let answer = aside_answer q number rs seat.spare c.requires c.put_aside.result c.args.task c.put_aside.new.spare c.put_aside.ensures.put c.put_aside.ensures.few full in
    record {
      seat = answer.0;
      put = answer.1;
      first = λ has. absurd (let less = room_left q seat c.requires has in let more = full has.0 in omega arith);
    }

pub index_mut-requires : goal.index_mut-requires
index_mut-requires g c =
    let seat = c.args.seat.now in
    (let a = c.requires.placed in let b = c.requires.count in let d = seat.reaches.ok.0 in omega arith)

pub put_into-requires : goal.put_into-requires
put_into-requires g c =
    let seat = c.args.seat.now in
    let r = c.index_mut.result.now in
    let at = at_index seat.reaches.items seat.number r (let a = c.requires.placed in let b = c.requires.count in omega arith) c.index_mut.ensures.value in
    let works = own_works c.args.self.now seat.number seat.reaches.items seat.spare c.requires r at in
    record { own = works.0; holds = works.1 }

pub returns-in-Ok : goal.returns-in-Ok
returns-in-Ok g c =
    let q = c.args.self.now in
    let seat = c.args.seat.now in
    let rs = seat.reaches.items in
    let number = seat.number in
    let r = c.index_mut.result.now in
    let at = at_index rs number r (let a = c.requires.placed in let b = c.requires.count in omega arith) c.index_mut.ensures.value in
    let r' = c.put_into.new.reach in
    let reach = reach_stays q number r r' c.put_into.ensures.reach (c.requires.each number r at) in
    let none : length seat.spare ≡ 0 = search rules in
    let bare : seat.spare ≡ [] = no_length seat.spare none in
    let both = puts_in q number rs seat.spare c.requires r r' at reach c.args.task bare c.in-Ok.ensures.put in
    record { seat = both.0; put = both.1; first = search rules }

pub returns-in-Err : goal.returns-in-Err
returns-in-Err g c =
    let q = c.args.self.now in
    let seat = c.args.seat.now in
    let rs = seat.reaches.items in
    let number = seat.number in
    let r = c.index_mut.result.now in
    let at = at_index rs number r (let a = c.requires.placed in let b = c.requires.count in omega arith) c.index_mut.ensures.value in
    let r' = c.put_into.new.reach in
    let reach = reach_stays q number r r' c.put_into.ensures.reach (c.requires.each number r at) in
    let same = c.in-Err.ensures.put.1 in
    let still = stays q number rs seat.spare c.requires number r r' at reach same in
    let full = full_now q number rs seat.spare c.requires r at c.in-Err.ensures.refused in
    let full_still : q.room ≤ length (own_at number (set rs number r')).put = subst (λ hands. q.room ≤ length (own_hand number hands).put) (sym still.1) full in
    let answer = aside_answer q number (set rs number r') seat.spare still.0 c.put_aside-in-Err.result c.in-Err.task c.put_aside-in-Err.new.spare c.put_aside-in-Err.ensures.put c.put_aside-in-Err.ensures.few (λ one. full_still) in
    record {
      seat = answer.0;
      put =
          subst
          (λ x. MatchResult c.put_aside-in-Err.result (λ _. Puts (vec_len q.stealers) x (account_at number (map hand_at rs) seat.spare) (account_at number (map hand_at (set rs number r')) c.put_aside-in-Err.new.spare))
          (λ y. (y ≡ x) × (account_at number (map hand_at (set rs number r')) c.put_aside-in-Err.new.spare ≡ account_at number (map hand_at rs) seat.spare)))
          c.in-Err.ensures.put.0
          (subst
          (λ hands. MatchResult c.put_aside-in-Err.result (λ _. Puts (vec_len q.stealers) c.in-Err.task (account_at number hands seat.spare) (account_at number (map hand_at (set rs number r')) c.put_aside-in-Err.new.spare))
          (λ y. (y ≡ c.in-Err.task) × (account_at number (map hand_at (set rs number r')) c.put_aside-in-Err.new.spare ≡ account_at number hands seat.spare)))
          still.1 answer.1);
      first = λ has. absurd (let less = room_left q seat c.requires has in let more = full in omega arith);
    }
