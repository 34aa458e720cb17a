-- The source that `load` makes from a number.
use Rattle.std.specs.Prelude.{ℕ, List, [], ◌∷◌, codes, decimal}
use Rattle.std.specs.List.{flat_map}

-- its pieces: k bodies put the numbers from 1 to 100 into one buffer, k others take a hundred numbers each and add them up, and
-- `Main` prints the sum of all
abbrev pub load_pieces : ℕ → List (List ℕ)
load_pieces k =
    codes "class Buffer {\n" ∷
    codes "  public Buffer() { empty(); empty(); }\n" ∷
    codes "  public void Put(int v) & async empty() { full(v); }\n" ∷
    codes "  public int Get() & async full(int v) { empty(); return v; }\n" ∷
    codes "}\n" ∷
    codes "class Total {\n" ∷
    codes "  public Total(int n) { sum(0, n); }\n" ∷
    codes "  public async Add(int v) & async sum(int s, int n) {\n" ∷
    codes "    if (n == 1) done(s + v); else sum(s + v, n - 1);\n" ∷
    codes "  }\n" ∷
    codes "  public int Wait() & async done(int s) { return s; }\n" ∷
    codes "}\n" ∷
    codes "class Side {\n" ∷
    codes "  public async Produce(Buffer b) {\n" ∷
    codes "    int i = 1;\n" ∷
    codes "    while (i <= 100) { b.Put(i); i = i + 1; }\n" ∷
    codes "  }\n" ∷
    codes "  public async Consume(Buffer b, Total t) {\n" ∷
    codes "    int i = 1; int s = 0;\n" ∷
    codes "    while (i <= 100) { s = s + b.Get(); i = i + 1; }\n" ∷
    codes "    t.Add(s);\n" ∷
    codes "  }\n" ∷
    codes "}\n" ∷
    codes "class Program {\n" ∷
    codes "  static void Main() {\n" ∷
    codes "    Buffer b = new Buffer(); Total t = new Total(" ∷ decimal k ∷ codes "); Side d = new Side();\n" ∷
    codes "    int i = 1;\n" ∷
    codes "    while (i <= " ∷ decimal k ∷ codes ") { d.Produce(b); d.Consume(b, t); i = i + 1; }\n" ∷
    codes "    Console.WriteLine(t.Wait());\n" ∷
    codes "  }\n" ∷
    codes "}\n" ∷ []

-- the source: its pieces one after the other
abbrev pub load_text : ℕ → List ℕ
load_text k = flat_map (λ piece. piece) (load_pieces k)
