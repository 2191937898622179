-- The first line of a study's table, as text and as comma-separated values.
use Rattle.std.specs.Prelude.{ℕ, List}
use Rattle.texts.specs.Ascii.{ascii}

unfoldable pub heading : List ℕ
heading = ascii "joint       body 1    body 2    row            impulse     lower bound     upper bound        residual at   rule\n"

unfoldable pub csv_heading : List ℕ
csv_heading = ascii "joint,body1,body2,id,unit,impulse [1e-6 unit],impulse [unit],impulse [f32 bits],lower bound [1e-6 unit],lower bound [unit],lower bound [f32 bits],upper bound [1e-6 unit],upper bound [unit],upper bound [f32 bits],residual [1e-6 unit],residual [unit],residual [f32 bits],at bound,rule,definition\r\n"
