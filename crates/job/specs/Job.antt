-- The job record.
--
--   pair_of j               the two polynomials in the record
--   spread e t             a table of degree e in y, laid out 17 places to a power of x
--   opened p m e n f s t   the job that an accepted opening gives
--   blank                  the all-zero record, which a refused opening hands back
--   kept_points j           the points kept, in order
--   stored j a             the job with the point a and its value kept
use Rattle.std.specs.Prelude.{ℕ, ◌+◌, ◌/◌, ◌%◌, List, take, set, replicate}
use Rattle.scope.specs.Pair.{Pair, term, tables, degree_a, degree_b}
use Rattle.scope.specs.Point.{tabulate, kept}
use Rattle.job.specs.declared.Job.{Job}

unfoldable pub pair_of : Job → Pair
pair_of j = record { p = j.p; m = j.m; n = j.n; e = 16; f = 16; A = term 16 j.a; B = term 16 j.b }

unfoldable pub spread : ℕ → List ℕ → List ℕ
spread e t = tabulate 289 (λ k. term e t (k / 17) (k % 17))

unfoldable pub opened : (p m e n f : ℕ) → List ℕ → List ℕ → Job
opened p m e n f s t =
    record {
      p = p;
      m = m;
      n = n;
      da = degree_a (tables p m e n f s t);
      db = degree_b (tables p m e n f s t);
      count = 0;
      a = spread e s;
      b = spread f t;
      points = replicate 513 0;
      values = replicate 513 0;
    }

unfoldable pub blank : Job
blank =
    record {
      p = 0;
      m = 0;
      n = 0;
      da = 0;
      db = 0;
      count = 0;
      a = replicate 289 0;
      b = replicate 289 0;
      points = replicate 513 0;
      values = replicate 513 0;
    }

unfoldable pub kept_points : Job → List ℕ
kept_points j = take j.count j.points

unfoldable pub stored : Job → ℕ → Job
stored j a =
    record {
      p = j.p;
      m = j.m;
      n = j.n;
      da = j.da;
      db = j.db;
      count = j.count + 1;
      a = j.a;
      b = j.b;
      points = set j.points j.count a;
      values = set j.values j.count (kept (pair_of j) a);
    }
