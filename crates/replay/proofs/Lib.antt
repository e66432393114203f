mod Cut
mod Read
