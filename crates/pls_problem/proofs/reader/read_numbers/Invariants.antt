use Rattle.std.proofs.Common.{◌≡◌, ◌≤◌, Ok, replicate, vec_len, vec_capacity}
use Rattle.std.specs.List.{All}
use Rattle.pls_problem.specs.Reading.{numbers}
use Rattle.pls_problem.proofs.reader.read_numbers.Given as goal

abbrev pub invariant-loop : goal.invariant-loop
invariant-loop l = record {
  read : numbers l.end (replicate l.counter (record { least = 0; most = l.most })) l.fn.words ≡ Ok (l.numbers.items, l.words);
  count : vec_len l.numbers ≡ l.counter;
  limits : All (λ n. n ≤ l.most) l.numbers.items;
  room : l.count ≤ vec_capacity l.numbers;
}
